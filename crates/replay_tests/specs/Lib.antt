-- What the helpers of these tests say of the shards that they open.
pub mod SessionOptions
