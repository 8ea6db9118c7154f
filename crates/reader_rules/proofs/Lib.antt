pub mod OwnFieldLaws
pub mod HeapLaws
