pub mod TicketCounts
pub mod TicketSteps
pub mod ShareLemmas
pub mod VerdictPlaces
