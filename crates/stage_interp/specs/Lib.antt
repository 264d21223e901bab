pub mod StackState
pub mod Results
pub mod CellNumbers
pub mod MachineState
pub mod RemainingBehaviour
pub mod TreeRuns
pub mod Executions
pub mod Running
