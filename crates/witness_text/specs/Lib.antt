pub mod WitnessText
pub mod Put
pub mod PutLaws
pub mod WitnessTextLaws
