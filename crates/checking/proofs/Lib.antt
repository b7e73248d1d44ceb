pub mod LeastLast
pub mod ListJudged
pub mod Walking
pub mod WholeFile
