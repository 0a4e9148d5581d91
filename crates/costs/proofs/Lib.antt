pub mod SeriesParallel
