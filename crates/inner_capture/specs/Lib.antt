pub mod InnerCapture
