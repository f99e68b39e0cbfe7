pub mod Verdicts
mod EventTexts
mod Exchanges
mod OneAnswer
mod Targets
mod Texts
