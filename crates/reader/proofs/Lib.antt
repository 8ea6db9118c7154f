pub mod Laws
pub mod AcceptedLaws
