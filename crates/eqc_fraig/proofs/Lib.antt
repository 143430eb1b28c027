pub mod AlongLaws
