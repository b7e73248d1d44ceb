-- From a turn's report to all that the export promises.
pub mod Exports
