pub mod PicturesPut
pub mod PicturesWays
