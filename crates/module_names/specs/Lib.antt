pub mod ModuleNames
