pub mod StartLaws
pub mod PacketLaws
pub mod CutLaws
