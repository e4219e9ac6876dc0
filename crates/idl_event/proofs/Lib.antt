pub mod AfterLemmas
pub mod ApartLemmas
pub mod LogLemmas
pub mod RunsLemmas
pub mod SitesLemmas
