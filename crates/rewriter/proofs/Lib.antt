pub mod FormLaws
pub mod AnswerLaws
pub mod OneForm
