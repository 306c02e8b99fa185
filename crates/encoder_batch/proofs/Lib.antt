pub mod BatchCall
