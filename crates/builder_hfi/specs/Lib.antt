pub mod HfiParts
