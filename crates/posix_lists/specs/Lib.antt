pub mod ThreadLists
