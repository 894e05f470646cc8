pub mod StoreFixing
