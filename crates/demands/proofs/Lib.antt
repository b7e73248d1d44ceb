-- From what the exports promise to the demands.
pub mod ListDemand
pub mod RunDemands
pub mod StepDemand
pub mod Trips
