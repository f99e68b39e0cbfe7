mod Ready
mod Changed
mod Fronts
mod Named
mod Stepped
mod Swept
