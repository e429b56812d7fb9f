mod Answering
mod Audits
mod Cuts
mod FlightLines
mod Sealings
