pub mod BenchLaws
pub mod DrawLaws
pub mod PlantedLaws
