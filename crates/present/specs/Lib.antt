pub mod TableFigure
pub mod PresentFigure
pub mod Touched
