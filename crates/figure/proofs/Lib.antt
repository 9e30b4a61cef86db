pub mod FigureFields
pub mod FigureSums
pub mod FigureIds
pub mod FigureBytes
pub mod KeptFigures
pub mod KeptSteps
pub mod Examples
