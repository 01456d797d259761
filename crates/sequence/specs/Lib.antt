pub mod Definition1
