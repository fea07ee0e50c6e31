mod At
mod Driven
