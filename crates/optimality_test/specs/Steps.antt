pub mod TreeCosts
