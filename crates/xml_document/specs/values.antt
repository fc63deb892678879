pub mod XmlCases
