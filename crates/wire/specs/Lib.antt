-- The definitions that the contracts of this crate cite, in reading order.
pub mod FrameView
pub mod BigEndian
pub mod PlainIpv4
pub mod FlowForm
pub mod FlowBytes
pub mod EthernetBytes
pub mod Checksum
pub mod Fnv
pub mod Device
pub mod CaptureFormat
pub mod FaultNumber
