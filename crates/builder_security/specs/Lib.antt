pub mod SecurityFaults
