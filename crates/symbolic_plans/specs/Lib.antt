pub mod Laws
pub mod OpenPlans
pub mod OwnLaws
pub mod OwnPlans
pub mod Parts
pub mod Plans
