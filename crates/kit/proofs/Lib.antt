pub mod KitCall
