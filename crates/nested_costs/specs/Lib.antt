pub mod NestedCosts
