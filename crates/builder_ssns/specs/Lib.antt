pub mod SsnsParts
