pub mod AugmentationLemmas
pub mod CostLemmas
pub mod RepairLemmas
