pub mod Perturbed
pub mod TreePotential
pub mod FirstBasis
