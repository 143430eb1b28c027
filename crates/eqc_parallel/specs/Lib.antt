pub mod Ticket
pub mod Verdicts
