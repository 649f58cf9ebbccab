pub mod Way
pub mod Spell
pub mod BackLaws
pub mod PrecedesLaws
pub mod SpellLaws
