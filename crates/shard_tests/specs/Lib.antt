pub mod ExampleMaps
