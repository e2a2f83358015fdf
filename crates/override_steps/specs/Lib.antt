pub mod GoodMethods
