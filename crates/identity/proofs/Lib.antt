pub mod IdentityLaws
