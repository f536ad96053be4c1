pub mod FloydWarshall
