pub mod Store
pub mod Nodes
pub mod Tables
pub mod Evaluators
pub mod EvaluatorLaws
pub mod CountLaws
pub mod NodeLaws
pub mod TableLaws
