pub mod InstanceEnds
