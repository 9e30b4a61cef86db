pub mod PresentFigure
pub mod TouchedStays
