pub mod TwoWorkers
