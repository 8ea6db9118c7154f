pub mod TextLaws
pub mod HeldLaws
pub mod PlaceLaws
