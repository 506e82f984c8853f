pub mod BanLaws
