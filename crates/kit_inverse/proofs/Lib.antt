pub mod Found
pub mod KitProduct
pub mod RowSearch
pub mod RowSizes
pub mod Rule9
pub mod WholeProduct
