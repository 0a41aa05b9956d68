pub mod RacerActs
pub mod RacerRuns
pub mod RacerSteps
pub mod RacerWrites
