pub mod StepsCarried
pub mod ShownHanded
