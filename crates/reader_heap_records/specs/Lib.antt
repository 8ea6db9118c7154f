pub mod HeapRecords
