pub mod RisingLaws
pub mod StepLaws
