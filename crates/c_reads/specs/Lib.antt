pub mod PackedReads
