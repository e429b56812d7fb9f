pub mod Ending
pub mod Laws
pub mod OpenAudits
pub mod OpenQuestions
pub mod Recovered
