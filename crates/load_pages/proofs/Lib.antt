pub mod Walking
pub mod Rowing
pub mod Heading
