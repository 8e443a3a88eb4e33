mod LinesApart
mod Conversions
mod Returns
